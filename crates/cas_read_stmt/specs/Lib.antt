pub mod FollowStmts
