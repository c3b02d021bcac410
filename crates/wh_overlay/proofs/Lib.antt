mod OverlayLemmas
mod TableLemmas
