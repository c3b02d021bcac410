mod FirstRow
mod SpecRules
