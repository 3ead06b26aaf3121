-- Lemmas about commands, and about runs, which are sequences of commands.
pub mod HintedLemmas
mod CommandLemmas
pub mod RunLemmas
mod SplicesLemmas
mod CallbackLemmas
mod NextBackLemmas
mod CallbackExtractLemmas
mod MoveLemmas
pub mod WeakerClonesLemmas
mod PaidLemmas
mod AmortizedLemmas
mod SlackLemmas
mod PlainLemmas
mod PlainExamples
mod StepsExamples
mod HeadlineLemmas
