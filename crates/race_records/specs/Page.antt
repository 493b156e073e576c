-- A text that is printed piece by piece: what is out, and what waits for the next write.
use Rattle.std.specs.Prelude.{◌≡◌, ℕ, ◌+◌, ◌-◌, ◌^◌, ◌<◌, ◌≤◌, min, List, ◌++◌, length, Option, Result, IsOk, OnOk}
use Rattle.std.specs.{Prelude.{OnErr, IfErr}, Bool.⊤, Borrow.Bor, List.flat_map, Io.KnownBytes.Appends}
use Rattle.race_records.specs.declared.{sink.{Sink.Sink, WriteFault.WriteFault}, page.TheConstants.BLOCK}
use Rattle.race_records.specs.Devices.{written, sink_failures, one_more}

-- the bytes that wait, and how many are out
pub record PageState : Type 0 where
  pub waiting : List ℕ
  pub sent : ℕ

-- what a count of bytes shows of n: n itself, short of the greatest count
abbrev pub count_of_bytes : ℕ → ℕ
count_of_bytes n = min n (2 ^ 64 - 1)

-- the text is what was put so far: its front is out, behind what the writer held at the start, and the rest waits
pub record IsPrinted (start now : Option (List ℕ)) (page : PageState) (text : List ℕ) : Type 0 where
  pub out : List ℕ
  pub split : text ≡ out ++ page.waiting
  pub appended : Appends start now out
  pub counted : page.sent ≡ count_of_bytes (length out)

-- only a front of the text is out, and sent tells how long it is
pub record IsCutOff (start now : Option (List ℕ)) (sent : ℕ) (text : List ℕ) : Type 0 where
  pub out : List ℕ
  pub rest : List ℕ
  pub split : text ≡ out ++ rest
  pub short : 0 < length rest
  pub appended : Appends start now out
  pub counted : sent ≡ count_of_bytes (length out)

-- a call puts the bytes behind whatever text was put before
abbrev pub Prints : Option (List ℕ) → Option (List ℕ) → PageState → PageState → List ℕ → Type 0
Prints before after old new bytes =
    (start : Option (List ℕ)) (text : List ℕ) → IsPrinted start before old text → IsPrinted start after new (text ++ bytes)

-- a call breaks off: whatever text was put before, only a front of it and the bytes is out
abbrev pub BreaksOff : Option (List ℕ) → Option (List ℕ) → PageState → ℕ → List ℕ → Type 0
BreaksOff before after old sent bytes =
    (start : Option (List ℕ)) (text : List ℕ) → IsPrinted start before old text → IsCutOff start after sent (text ++ bytes)

-- where the bytes find room in the block they wait behind the others, and nothing is written
abbrev pub WaitsIfRoom : {W E : Type 0} → Result ⊤ E → Sink W → Sink W → PageState → PageState → List ℕ → Type 0
WaitsIfRoom result sink sink_now page page_now bytes =
    length page.waiting + length bytes ≤ BLOCK → IsOk result × (sink_now ≡ sink) × (page_now.waiting ≡ page.waiting ++ bytes)

-- how a call ended that was to print the bytes: it put them behind the text and no write failed, or a write failed and
-- only a front is out; what finds room in the block waits
pub record Printing {W : Type 0} (contents : W → Option (List ℕ)) (result : Result ⊤ WriteFault)
    (sink sink_now : Sink W) (page page_now : PageState) (bytes : List ℕ) : Type 0 where
  pub ok : OnOk result (Prints (written contents sink) (written contents sink_now) page page_now bytes)
  pub sent : IfErr result (λ fault. BreaksOff (written contents sink) (written contents sink_now) page fault.sent bytes)
  pub calm : OnOk result (sink_failures sink_now ≡ sink_failures sink)
  pub failed : OnErr result (sink_failures sink_now ≡ one_more (sink_failures sink))
  pub waits : WaitsIfRoom result sink sink_now page page_now bytes

-- the parts one behind the other
abbrev pub joined : List (Bor (List ℕ)) → List ℕ
joined parts = flat_map (λ (p : Bor (List ℕ)). p.now) parts
