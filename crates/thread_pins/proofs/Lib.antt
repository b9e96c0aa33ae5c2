mod BatchLemmas
mod PassLemmas
mod ReceiptLemmas
mod GroupLemmas
mod HotLemmas
mod MadeLemmas
mod CastLemmas
