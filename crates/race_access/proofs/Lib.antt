pub mod TouchSteps
pub mod KeptSteps
pub mod KeepSteps
pub mod RisingSteps
pub mod StandSteps
pub mod StampSteps
pub mod NoteSteps
