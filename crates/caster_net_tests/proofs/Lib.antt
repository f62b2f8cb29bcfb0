mod GrewLemmas
