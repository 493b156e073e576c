use Rattle.std.proofs.{Common.{◌≡◌, ◌<◌, not, rules, sym, subst}, lemmas.{Fn.filter_same, List.Kept.AllPairs-filter}}
use Rattle.std.specs.List.{filter}
use Rattle.race_access.specs.{declared.access.Access.Access, Kept.{is_known, AreRising}}
use Rattle.race_access.proofs.KeepSteps.{drops_by_filter, known_or_kept}
use Rattle.race_access.proofs.accesses.drop_known.Goals as goal

pub returns-then-len-capacity-clause-kept : goal.returns-then-len-capacity-clause-kept
returns-then-len-capacity-clause-kept g c =
    let left : c.retain.new.self.items ≡ filter (λ e. not (is_known c.args.clock.now e)) c.args.reads.now.items =
    filter_same _ (λ e. not (is_known c.args.clock.now e)) _ (λ x b f k. search rules) _ _ c.retain.ensures.filtered in
    rw left (drops_by_filter (λ e. not (is_known c.args.clock.now e)) c.args.reads.now.items c.args.clock.now (known_or_kept c.args.clock.now))

pub returns-then-len-capacity-clause-full : goal.returns-then-len-capacity-clause-full
returns-then-len-capacity-clause-full g c = λ _.
    filter_same _ (λ e. not (is_known c.args.clock.now e)) _ (λ x b f k. search rules) _ _ c.retain.ensures.filtered

pub returns-then-len-capacity-clause-rising : goal.returns-then-len-capacity-clause-rising
returns-then-len-capacity-clause-rising g c = λ rising.
    let left : c.retain.new.self.items ≡ filter (λ e. not (is_known c.args.clock.now e)) c.args.reads.now.items =
    filter_same _ (λ e. not (is_known c.args.clock.now e)) _ (λ x b f k. search rules) _ _ c.retain.ensures.filtered in
    subst AreRising (sym left) (AllPairs-filter (λ (d e : Access). d.who < e.who) (λ e. not (is_known c.args.clock.now e)) c.args.reads.now.items rising)
