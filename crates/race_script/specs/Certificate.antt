-- When a recording is a run of a program. (The Go Memory Model, "Memory Model", requirement 1: the operations in each goroutine
-- correspond to a correct sequential execution of that goroutine)
use Rattle.std.specs.Prelude.{ℕ, ◌≡◌, ◌<◌, ◌+◌, ◌==◌, ◌⊎◌, List, take, drop, fold, slice_get, Option, Some, IfSome}
use Rattle.std.specs.{List.find, Option.option_map}
use Rattle.race_records.specs.{declared.event.{Event.Event, Op.{Op, TheVariants.OnceDone}}, Equality.declared}
use Rattle.race_requests.specs.{declared.request.{Ask.Ask, Request.Request, Waiter.Waiter}, Table.{place_of, CanMake}}
use Rattle.race_hub.specs.{Part.part_of, Recording.RecordingState}
use Rattle.race_text.specs.Text.{place_text}
use Rattle.race_script.specs.{declared.certificate.NotARun.NotARun, Bodies.steps_to_end, Program.Instruction}
use Rattle.race_script.specs.Program.{ProgramState, asked_by, instruction, spelled}

-- the position behind the event: one further, or behind the end of a once's function that had run
abbrev pub after_event : List Ask → ℕ → Op → ℕ
after_event asks p (OnceDone o) = p + 1 + steps_to_end 0 (drop (p + 1) asks)
after_event asks p op = p + 1

-- the position behind all of them, from the body's begin
abbrev pub behind : List Ask → List Event → ℕ
behind asks events = fold (λ p e. after_event asks p e.op) 0 events

-- the body of goroutine g, and the recording's table of places
module _ (body : List Instruction) (places : List (List ℕ)) (g : ℕ) where
  -- the body's step at the position makes the event: it stands where g does in the event, and the table has a row for both, with
  -- some answer
  abbrev pub FitsAt : ℕ → Event → Type 0
  FitsAt p e = (i : Instruction) × (slice_get body p ≡ Some i) × (option_map (place_text places) (place_of g e) ≡ Some i.place) × CanMake g i.ask e.op

  -- each event of the part is made by the step behind those before it
  abbrev pub Follows : List Event → Type 0
  Follows part = (n : ℕ) (e : Event) → slice_get part n ≡ Some e → FitsAt (behind (asked_by body) (take n part)) e

  -- what waits, if anything does, is the body's step at the position
  abbrev pub WaitsAt : ℕ → Option Request → Type 0
  WaitsAt p waiting = IfSome waiting (λ w. slice_get body p ≡ Some (instruction places w))

  -- the part and then what waits are a run of the body, which may stop before the body does
  pub record IsRun (part : List Event) (waiting : Option Request) : Type 0 where
    pub follows : Follows part
    pub waits : WaitsAt (behind (asked_by body) part) waiting

  -- the part follows the body up to an event at the position, which the step there doesn't make
  abbrev pub LeavesAt : List Event → ℕ → Type 0
  LeavesAt part p =
      (n : ℕ) × (e : Event) × (slice_get part n ≡ Some e) × Follows (take n part) × (p ≡ behind (asked_by body) (take n part)) × (FitsAt p e → ⊥)

  -- it leaves the body at the position, or follows it up to there, and the step there isn't what waits
  abbrev pub IsStuckAt : List Event → Option Request → ℕ → Type 0
  IsStuckAt part waiting p = LeavesAt part p ⊎ (Follows part × (p ≡ behind (asked_by body) part) × (WaitsAt p waiting → ⊥))

-- the request of the goroutine that has no event
abbrev pub waiting_of : ℕ → List Waiter → Option Request
waiting_of g waiting = option_map (λ w. w.asked) (find (λ w. w.who == g) waiting)

-- what g did and asked is a run of that body
abbrev pub Runs : ProgramState → RecordingState → ℕ → List Request → Type 0
Runs p r g body = IsRun (spelled p.decls.places body) r.decls.places g (part_of g r.events) (waiting_of g r.waiting)

-- the recording is a run of the program: the version is the same, the same is declared, in the same order, and each goroutine runs
-- its body
pub record IsCertified (p : ProgramState) (r : RecordingState) : Type 0 where
  pub declarations : declared r.decls ≡ declared p.decls
  pub runs : (g : ℕ) (body : List Request) → slice_get p.bodies g ≡ Some body → Runs p r g body

-- it isn't, since at this step of this goroutine's body the goroutine is stuck, while each of a lower number runs its own
pub record IsStuck (p : ProgramState) (r : RecordingState) (at : NotARun) : Type 0 where
  pub declarations : declared r.decls ≡ declared p.decls
  pub lower : (g : ℕ) (body : List Request) → g < at.g → slice_get p.bodies g ≡ Some body → Runs p r g body
  pub body : List Request
  pub whose : slice_get p.bodies at.g ≡ Some body
  pub stuck : IsStuckAt (spelled p.decls.places body) r.decls.places at.g (part_of at.g r.events) (waiting_of at.g r.waiting) at.step

-- it isn't, since the version is another or something else is declared, which is told of main and its first step
pub record DeclaresOther (p : ProgramState) (r : RecordingState) (at : NotARun) : Type 0 where
  pub declarations : declared r.decls ≡ declared p.decls → ⊥
  pub main : at.g ≡ 0
  pub first : at.step ≡ 0

-- why the recording is no run of the program
abbrev pub LeavesProgram : ProgramState → RecordingState → NotARun → Type 0
LeavesProgram p r at = DeclaresOther p r at ⊎ IsStuck p r at
