pub mod Block_lemmas
pub mod Change_lemmas
pub mod Getting
pub mod Search_lemmas
