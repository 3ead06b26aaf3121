-- The contracts of the editor use the first three modules. `DivisorJudge` has the decisions of the
-- judge of `replay`. A judge makes decisions in place of a closure.
pub mod Changes
pub mod Commands
pub mod History
pub mod DivisorJudge
