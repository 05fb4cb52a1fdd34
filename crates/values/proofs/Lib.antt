mod Entry
mod Typed
mod ValuingLaws
mod CarryingLaws
mod Turns
mod Windows
