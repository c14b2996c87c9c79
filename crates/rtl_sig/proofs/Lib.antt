pub mod NamesLemmas
