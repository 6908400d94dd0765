pub mod Answering
pub mod Argument_lemmas
pub mod Getting
pub mod Numbers
