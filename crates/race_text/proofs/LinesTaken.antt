-- What is told of bytes whose first lines were taken, by what is told of the next line.
use Rattle.std.proofs.{Common.{◌≡◌, ℕ, ◌+◌, List, [], ◌∷◌, ◌++◌, length, Option, Some, None, sym, ap, ◌∙◌}, lemmas.Option.none-some}
use Rattle.std.specs.Borrow.{Bor}
use Rattle.race_text.specs.{declared.cause.TextFault.TextFault, Words.{parts_of, parts_left}, Lines.Causes, Common.line_in}
use Rattle.race_text.specs.{Grammar.{ForEachLines, Takes, TellsOfFront}, Fed.{IsUnended, TellsOfMemory, TakesNext, TellsOfNext}}
use Rattle.race_text.specs.Fed.{TakesBytes, TellsOfWhole}
use Rattle.race_text.proofs.FedLemmas.{seam_line, seam_part, memory_told, line_told, line_owed, line_taken, none_ended}
use Rattle.race_text.proofs.FedLemmas.{takes_all, still_taken}

-- a line of which a part was kept ends in the piece, whatever follows
pub seam_kept : (part piece end : List ℕ) (rest : Option (Bor (List ℕ))) (others : Bor (List ℕ)) → IsUnended part → parts_of piece ≡ end ∷ parts_left 10 rest
    → rest ≡ Some others → (more : List ℕ) → parts_of ((part ++ piece) ++ more) ≡ (part ++ end) ∷ parts_of (others.now ++ more)
seam_kept part piece end rest others unended cut is more =
    seam_line (part ++ piece) (part ++ end) others.now more
    (seam_part part piece end (parts_of others.now) unended (cut ∙ ap (λ r. end ∷ parts_left 10 r) is))

-- where no newline is in the piece
pub uncut : (piece end : List ℕ) (rest : Option (Bor (List ℕ))) → parts_of piece ≡ end ∷ parts_left 10 rest → rest ≡ None → parts_of piece ≡ end ∷ []
uncut piece end rest cut is = cut ∙ ap (λ r. end ∷ parts_left 10 r) is

module _ (causes : Causes) where
  -- a line that is taken is so of whatever it is the first line
  pub line_goes : (Stood Stands : List (List ℕ) → Type 0) (bytes line others : List ℕ)
      → ((more : List ℕ) → parts_of (bytes ++ more) ≡ line ∷ parts_of (others ++ more)) → Takes causes Stood line Stands
      → TakesBytes causes Stood bytes Stands others
  line_goes Stood Stands bytes line others ends takes whole more t =
      line_taken causes whole Stood (bytes ++ more) t line (others ++ more) (ends more) Stands takes

  module _ (Stood Mid Stands : List (List ℕ) → Type 0) (bytes left : List ℕ) (taken : TakesBytes causes Stood bytes Mid left) where
    pub next_taken : (others : Bor (List ℕ)) → TakesNext causes Mid left (Some others) Stands → TakesBytes causes Stood bytes Stands others.now
    next_taken others next whole more t =
        line_goes Mid Stands left (line_in left) others.now (λ more. seam_line left (line_in left) others.now more next.0) next.1 whole more (taken whole more t)

    pub next_told : (told : TextFault) → TellsOfNext causes Mid left told → TellsOfWhole causes Stood bytes told
    next_told told tells = record {
      told = λ whole more t.
          line_told causes whole Mid (left ++ more) (taken whole more t) (line_in left) (tells.rest ++ more)
          (seam_line left (line_in left) tells.rest more tells.ends) told tells.is;
      owed = λ whole t.
          line_owed causes whole Mid left (takes_all causes Stood Mid bytes left whole taken t) (line_in left) tells.rest tells.ends told tells.is;
    }

    -- a fault is told of what is left
    pub left_told : (told : TextFault) → TellsOfWhole causes Mid left told → TellsOfWhole causes Stood bytes told
    left_told told tells = record {
      told = λ whole more t. tells.told whole more (taken whole more t);
      owed = λ whole t. tells.owed whole (takes_all causes Stood Mid bytes left whole taken t);
    }

    -- the same of the line in front of it
    pub front_told : (told : TextFault) → ForEachLines Mid (λ lines. told.line ≡ length lines + 1) → TellsOfFront causes Mid left told.cause
        → TellsOfWhole causes Stood bytes told
    front_told told number front =
        next_told told (record { rest = front.rest; ends = front.ends; is = λ lines S. record { number = number lines S; least = front.least lines S } })

    -- no line is taken of what is left
    pub none_taken : ForEachLines Mid Stands → TakesBytes causes Stood bytes Stands left
    none_taken stays whole more t = still_taken causes whole (left ++ more) Mid Stands stays (taken whole more t)

    -- no line is ended, and there is no memory for what is left
    pub kept_told : (told : TextFault) → TakesNext causes Mid left None Stands → ForEachLines Stands (TellsOfMemory told) → TellsOfWhole causes Stood bytes told
    kept_told told none tells = record {
      told = λ whole more t.
          memory_told causes whole Stands (left ++ more) (still_taken causes whole (left ++ more) Mid Stands none.1 (taken whole more t)) told tells;
      owed = λ whole t fault is _.
          absurd (none-some fault (sym (none_ended causes whole Mid left (takes_all causes Stood Mid bytes left whole taken t) none.0) ∙ is));
    }
