mod ListsLaws
mod Stages
mod TableLaws
mod FormLaws
mod Decoding
mod Steps
mod Loops
