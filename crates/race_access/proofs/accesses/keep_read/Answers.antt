use Rattle.std.proofs.{lemmas.{Grind.{common_steps, elements}, List.get_or_default}, Common.{◌∙◌, List, arith, ap}}
use Rattle.std.proofs.Common.{subst}
use Rattle.race_access.specs.{declared.access.Access.Access, Kept.IsPlaceOf}
use Rattle.race_access.proofs.{KeepSteps.{drops_none, keeps_inserted}, RisingSteps.{has_none, insert_rises}}
use Rattle.race_access.proofs.accesses.keep_read.Goals.{else-place-len-via-then-place-len+else-index-access}
use Rattle.race_access.proofs.accesses.keep_read.Goals.{else-place-len-via-else-place-len}
use Rattle.race_access.proofs.accesses.keep_read.Goals as goal

pub index-requires : goal.index-requires
index-requires c = grind (arith, common_steps) steps 300000

pub index_mut-requires : goal.index_mut-requires
index_mut-requires c = grind (arith, common_steps) steps 300000

pub returns-then-index-access-clause-ok : goal.returns-then-index-access-clause-ok
returns-then-index-access-clause-ok c = grind (arith, elements) steps 2000000

pub returns-then-len-capacity-clause-ok : goal.returns-then-len-capacity-clause-ok
returns-then-len-capacity-clause-ok g c =
    let old = c.args.reads.now.items in
    rw c.put_at.ensures (keeps_inserted old old _ c.args.access c.args.clock.now (drops_none old c.args.clock.now))

-- where the goroutine's place isn't its own, it has none
pub returns-then-len-capacity-clause-rising : goal.returns-then-len-capacity-clause-rising
returns-then-len-capacity-clause-rising g c =
    let old = c.args.reads.now.items in
    let who = c.args.access.who in
    let place = subst (λ (reads : List Access). IsPlaceOf reads who c.place_of-place.result) c.deref.ensures.value c.place_of-place.ensures in
    let len = c.len.ensures in
    let none = has_none old who c.place_of-place.result c.requires place (λ d within same. elim c.else-place-len.branch [
      | else-place-len-via-then-place-len+else-index-access w ↦
          let at = w.index.ensures ∙ get_or_default old c.place_of-place.result w.index.result.now d within in
          w.if-index-access.false (ap (λ (e : Access). e.who) at ∙ same)
      | else-place-len-via-else-place-len w ↦ let short = w.if-place-len.false in absurd (omega (arith, within, short, len))
    ]) in
    rw c.put_at.ensures (insert_rises old c.place_of-place.result c.args.access c.requires place none)

pub keep_first-requires-clause-first : goal.keep_first-requires-clause-first
keep_first-requires-clause-first g c =
    let old = c.args.reads.now.items in
    let who = c.args.access.who in
    let place = subst (λ (reads : List Access). IsPlaceOf reads who c.place_of-place.result) c.deref.ensures.value c.place_of-place.ensures in
    let len = c.len.ensures in
    has_none old who c.place_of-place.result c.requires place (λ d within same. elim c.else-place-len.branch [
      | else-place-len-via-then-place-len+else-index-access w ↦
          let at = w.index.ensures ∙ get_or_default old c.place_of-place.result w.index.result.now d within in
          w.if-index-access.false (ap (λ (e : Access). e.who) at ∙ same)
      | else-place-len-via-else-place-len w ↦ let short = w.if-place-len.false in absurd (omega (arith, within, short, len))
    ])
