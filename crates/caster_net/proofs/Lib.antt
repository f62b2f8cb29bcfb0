mod PieceLemmas
mod ToldLemmas
