-- What a reader and a writer show that count their calls.
use Rattle.std.specs.Prelude.{ℕ, ◌+◌, ◌-◌, ◌^◌, ◌==◌, ◌&&◌, Bool, true, false, min, not, if◌then◌else◌, List, length}
use Rattle.std.specs.Prelude.{Option, Result, Ok, Err}
use Rattle.race_records.specs.declared.{source.Source.Source, sink.Sink.Sink}

-- the reader itself
abbrev pub reader_of : {R : Type 0} → Source R → R
reader_of source = source.reader

-- the bytes that it has left, where its type tells them
abbrev pub unread : {R : Type 0} → (R → Option (List ℕ)) → Source R → Option (List ℕ)
unread remaining source = remaining source.reader

-- how often it was read
abbrev pub source_reads : {R : Type 0} → Source R → ℕ
source_reads source = source.reads

-- how many reads failed
abbrev pub source_failures : {R : Type 0} → Source R → ℕ
source_failures source = source.failures

-- the key for the hashes of its text's names
abbrev pub source_key : {R : Type 0} → Source R → ℕ
source_key source = source.key

-- the writer itself
abbrev pub writer_of : {W : Type 0} → Sink W → W
writer_of sink = sink.writer

-- the bytes that it holds, where its type tells them
abbrev pub written : {W : Type 0} → (W → Option (List ℕ)) → Sink W → Option (List ℕ)
written contents sink = contents sink.writer

-- how many writes failed, or took none of some bytes
abbrev pub sink_failures : {W : Type 0} → Sink W → ℕ
sink_failures sink = sink.failures

-- so many more, short of the greatest count
abbrev pub more_by : ℕ → ℕ → ℕ
more_by n count = min (count + n) (2 ^ 64 - 1)

-- one more, short of the greatest count
abbrev pub one_more : ℕ → ℕ
one_more count = more_by 1 count

-- the read failed
abbrev pub is_failed_read : {E : Type 0} → Result ℕ E → Bool
is_failed_read (Ok taken) = false
is_failed_read (Err e) = true

-- the write failed, or took none of some bytes
abbrev pub is_failed_write : {E : Type 0} → Result ℕ E → List ℕ → Bool
is_failed_write (Ok taken) bytes = (taken == 0) && not (length bytes == 0)
is_failed_write (Err e) bytes = true

-- the count after a call
abbrev pub counted : Bool → ℕ → ℕ
counted failed count = if failed then one_more count else count
