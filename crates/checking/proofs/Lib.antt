mod CheckerLaws
mod CarriedLaws
mod SoundLaws
mod RulesLaws
mod ProceduresLaws
mod AnswerLaws
pub mod Walking
