mod HeadsLaws
mod MarksLaws
mod CopiesLaws
