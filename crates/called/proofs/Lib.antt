mod CallsLaws
mod LinkedLaws
mod MarksLaws
mod FoundLaws
mod WorklistLaws
