pub mod Pointers
pub mod Places
pub mod NamesRead
pub mod Names
pub mod KeyBinding
pub mod FieldBinding
pub mod Binding
pub mod BindingRows
