mod ArgumentsLaws
mod CallsLaws
mod StepsLaws
mod WalkLaws
mod ProceduresLaws
