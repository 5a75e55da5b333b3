pub mod Checked
pub mod ExampleLaws
