pub mod Inverting
pub mod Origins
pub mod Worked
pub mod Reading
pub mod ReadingParts
pub mod FirstFlaws
pub mod Referring
pub mod Complete
pub mod WholeReading
pub mod Spelling
pub mod Within
pub mod Places
pub mod Ascending
mod Spelled
pub mod Visiting
mod WorkedFiles
pub mod Allowing
pub mod Changing
pub mod Acting
mod Kept
mod Linked
mod Numbering
mod NamesApart
mod Ranked
mod Standing
mod WorkedKinds
mod WorkedRuns
pub mod Initialising
pub mod Keeping
pub mod KindsBehind
pub mod LeastKinds
pub mod MergingKinds
pub mod Writing
