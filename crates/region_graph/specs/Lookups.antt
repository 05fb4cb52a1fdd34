-- Looking up in a list, and numbers in a row: these laws are in `laws`, and passed on under the names that this crate's users cite.
pub use Rattle.laws.specs.Numbers.{among_in, among_mk, up_from_in, up_from_mk}
pub use Rattle.laws.specs.Lists.{all_nth, all_or_default, nth_past, all_nth1, nth1_past}
