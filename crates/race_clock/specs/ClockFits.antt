-- What a clock asks of its allocator's type.
use Rattle.std.specs.{Borrow.{RattleType, u32}, declared.alloc.Allocator.Ghosts, Mem.FitsInMemory}
use Rattle.std.specs.contracts.option.Option.{the_row as OptionOf}
use Rattle.smallvec.specs.{contracts.small_vec.SmallVec.the_row, Iter.SmallVecFitsInMemory}
use denote.Param.{number}

-- Eight counts, or an allocation, and the allocator are no larger than memory. At each allocator that is named it holds by computing.
abbrev pub FitsInClock : (A : RattleType) → Ghosts A.Denot → Type 0
FitsInClock A alloc = SmallVecFitsInMemory u32 (number 8) A alloc

-- So is a clock, or none.
abbrev pub ClockOrNoneFits : (A : RattleType) → Ghosts A.Denot → Type 0
ClockOrNoneFits A alloc = FitsInMemory (OptionOf (the_row u32 (number 8) A alloc))
