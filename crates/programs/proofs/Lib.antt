-- These modules contain lemmas. `ChangesLemmas` is about changes to a text, and `RunLemmas` about
-- carrying out a single command.
mod ChangesLemmas
mod RunLemmas
