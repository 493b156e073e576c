-- Before the first event the tables answer the state words on the empty list.
use Rattle.std.proofs.Common.{◌≡◌, ℕ, ◌+◌, ◌<◌, ◌≤◌, false, List, [], length, replicate, refl, sym, ap, ◌∙◌, subst}
use Rattle.std.proofs.{Common.arith, lemmas.{Grind.common_steps, Bool.false≢true}}
use Rattle.std.{proofs.lemmas.List.{length-replicate, get_or-replicate}, specs.List.slice_index_or}
use Rattle.race_records.specs.{declared.kind.Kind.Kind, Declarations.{Declaration, count_of, counts_of, capacity_of}}
use Rattle.race_model.proofs.{CountSteps.as_number, LegalSteps.legal_none}
use Rattle.race_legal.specs.{ReplayState.{ReplayState, counts_in}, StandsFor.StandsFor}

-- no row of a column of zeros has more
pub none_reads : (n l : ℕ) → slice_index_or (replicate n 0) l 0 ≤ 0
none_reads n l = grind (arith, common_steps)

module _ (declarations : List Declaration) (capacities : List ℕ) where
  -- nothing started, nothing exited, no function of a once begun, each variable 0, each channel open and empty, each lock free
  abbrev pub first : ReplayState
  first = record {
    len = 0;
    over = false;
    goroutines = record {
      started = replicate (count_of Kind.Goroutine declarations) false;
      exited = replicate (count_of Kind.Goroutine declarations) false;
      stacks = replicate (count_of Kind.Goroutine declarations) [];
    };
    values = replicate (count_of Kind.Var declarations) 0;
    channels = record {
      capacities = capacities;
      closed = replicate (count_of Kind.Chan declarations) false;
      queues = replicate (count_of Kind.Chan declarations) [];
    };
    locks = record { held = replicate (count_of Kind.Lock declarations) false; readers = replicate (count_of Kind.Lock declarations) 0 };
    onces = record { begun = replicate (count_of Kind.Once declarations) false; ended = replicate (count_of Kind.Once declarations) false };
  }

  module _ (sized : length capacities ≡ count_of Kind.Chan declarations) (each : (c : ℕ)
      → c < length capacities → slice_index_or capacities c 0 ≡ capacity_of declarations c) where
    counts_first : (kind : Kind) → counts_in first kind ≡ counts_of declarations kind
    counts_first Kind.Goroutine = length-replicate (count_of Kind.Goroutine declarations) false
    counts_first Kind.Var = length-replicate {A = ℕ} (count_of Kind.Var declarations) 0
    counts_first Kind.Chan = sized
    counts_first Kind.Lock = length-replicate (count_of Kind.Lock declarations) false
    counts_first Kind.Once = length-replicate (count_of Kind.Once declarations) false

    -- each row of a column is as all are
    row : {X : Type 0} (kind : Kind) (x : X) (i : ℕ) → i < counts_in first kind → x ≡ slice_index_or (replicate (count_of kind declarations) x) i x
    row kind x i less = sym (get_or-replicate (count_of kind declarations) i x x (subst (λ n. i < n) (counts_first kind) less))

    -- it stands for the empty list
    pub stands_first : StandsFor declarations first []
    stands_first = record {
      legal = legal_none (capacity_of declarations);
      len = refl;
      counts = λ i kind. counts_first kind i;
      capacity = λ c less. sym (each c less);
      over = refl;
      started = row Kind.Goroutine false;
      exited = row Kind.Goroutine false;
      values = row {X = ℕ} Kind.Var 0;
      closed = row Kind.Chan false;
      queue = row {X = List ℕ} Kind.Chan [];
      received = λ c less. omega arith;
      held = λ l less. ap (λ b. 0 + as_number b) (row Kind.Lock false l less);
      readers = λ l less. ap (λ n. 0 + n) (row {X = ℕ} Kind.Lock 0 l less);
      begun = λ o less. ap as_number (row Kind.Once false o less);
      ended = row Kind.Once false;
      ended_begun = λ o less is. absurd (false≢true (row Kind.Once false o less ∙ is));
      stack = row {X = List ℕ} Kind.Goroutine [];
      square = record {
        exited = refl;
        stacks = length-replicate {A = List ℕ} (count_of Kind.Goroutine declarations) [] ∙ sym (length-replicate (count_of Kind.Goroutine declarations) false);
        closed = length-replicate (count_of Kind.Chan declarations) false ∙ sym sized;
        queues = length-replicate {A = List ℕ} (count_of Kind.Chan declarations) [] ∙ sym sized;
        readers = length-replicate {A = ℕ} (count_of Kind.Lock declarations) 0 ∙ sym (length-replicate (count_of Kind.Lock declarations) false);
        ended = refl;
      };
    }
