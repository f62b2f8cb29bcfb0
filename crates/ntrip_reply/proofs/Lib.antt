mod HeadLemmas
mod Rows
mod TextLemmas
