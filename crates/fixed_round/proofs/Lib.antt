pub mod MeanLemmas
