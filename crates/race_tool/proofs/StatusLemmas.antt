-- What the status of a right finding of a trace says of the bytes.
use Rattle.std.proofs.Common.{◌≡◌, ◌<◌, ℕ, Bool, List, [], ◌∷◌, None, refl, ap, ◌∙◌, arith}
use Rattle.race_model.specs.{Reorder.own_order, Verdict.{Race, Illegal, Clean, Races}}
use Rattle.race_model.proofs.{OwnOrder.own_is_reordering, ReorderLemmas.same_finds}
use Rattle.race_records.specs.Events.{TraceState}
use Rattle.race_text.{specs.Fault.text_fault, proofs.TextFine.text_has_no_fault}
use Rattle.race_verdict.specs.Traces.{capacities, HasVerdict, IsClean, IsRacy, IsIllegal}
use Rattle.race_tool.specs.Finding.{Finding, Faulty, TooLong, Judged, IsFinding, IsTextWhere, status_of}
use Rattle.race_tool.specs.Outcome.{IsOfAFinding}
use Rattle.race_tool.specs.declared.status.TheConstants as status

-- clean: no race, so each read finds the same write in every reordering
pub is_clean : (trace : TraceState) → HasVerdict trace Clean → IsClean trace
is_clean trace right = record {
  legal = right.0;
  race_free = right.1;
  same_reads = λ order is. same_finds (capacities trace) trace.events right.1 order
      (own_order trace.events) is (own_is_reordering (capacities trace) trace.events);
}

-- races: the first that is listed
pub is_racy : (trace : TraceState) (races : List Race) → HasVerdict trace (Races races) → IsRacy trace
is_racy trace [] right = absurd (right.1 refl)
is_racy trace (race ∷ races) right = record {
  legal = right.0;
  var = race.var;
  first = race.first;
  second = race.second;
  race = (right.2.each 0 race refl).race;
}

pub clean_text : (plain : Bool) (finding : Finding) (bytes : List ℕ)
    → IsFinding plain bytes finding → status_of finding ≡ status.CLEAN → IsTextWhere IsClean bytes
clean_text plain (Judged trace Clean) bytes right is = record { trace = trace; text = right.0; holds = is_clean trace right.2 }
clean_text plain (Judged trace (Illegal index rule)) bytes right is = cc
clean_text plain (Judged trace (Races races)) bytes right is = cc
clean_text plain (Faulty fault) bytes right is = cc
clean_text plain (TooLong events) bytes right is = cc

pub racy_text : (plain : Bool) (finding : Finding) (bytes : List ℕ)
    → IsFinding plain bytes finding → status_of finding ≡ status.RACES → IsTextWhere IsRacy bytes
racy_text plain (Judged trace (Races races)) bytes right is = record { trace = trace; text = right.0; holds = is_racy trace races right.2 }
racy_text plain (Judged trace (Illegal index rule)) bytes right is = cc
racy_text plain (Judged trace Clean) bytes right is = cc
racy_text plain (Faulty fault) bytes right is = cc
racy_text plain (TooLong events) bytes right is = cc

-- illegal: the event and the rule that are told
pub illegal_text : (plain : Bool) (finding : Finding) (bytes : List ℕ)
    → IsFinding plain bytes finding → status_of finding ≡ status.ILLEGAL → IsTextWhere IsIllegal bytes
illegal_text plain (Judged trace (Illegal index rule)) bytes right is =
    record { trace = trace; text = right.0; holds = record { index = index; rule = rule; broken = right.2 } }
illegal_text plain (Judged trace Clean) bytes right is = cc
illegal_text plain (Judged trace (Races races)) bytes right is = cc
illegal_text plain (Faulty fault) bytes right is = cc
illegal_text plain (TooLong events) bytes right is = cc

-- the text of a trace has no fault
pub no_fault_where : (Holds : TraceState → Type 0) (bytes : List ℕ) → IsTextWhere Holds bytes → text_fault bytes ≡ None
no_fault_where Holds bytes w = ap text_fault w.text.printed ∙ text_has_no_fault w.trace w.text.has_text

-- a status below 4, between 5 and 15 or above 15 tells of something that was found
module _ (n : ℕ) where
  pub small : n < 4 → IsOfAFinding n
  small less = record {
    granted = λ is. absurd (omega (arith, is, less));
    served = λ is. absurd (omega (arith, is, less));
    recorded = λ is. absurd (omega (arith, is, less));
  }

  pub middle : 5 < n → n < 15 → IsOfAFinding n
  middle more less = record {
    granted = λ is. absurd (omega (arith, is, more));
    served = λ is. absurd (omega (arith, is, more));
    recorded = λ is. absurd (omega (arith, is, less));
  }

  pub large : 15 < n → IsOfAFinding n
  large more = record {
    granted = λ is. absurd (omega (arith, is, more));
    served = λ is. absurd (omega (arith, is, more));
    recorded = λ is. absurd (omega (arith, is, more));
  }
