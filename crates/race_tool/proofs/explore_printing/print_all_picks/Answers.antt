use Rattle.std.proofs.Common.{◌≡◌, Ok, List, ℕ, codes, take, sym, ◌∙◌, subst}
use Rattle.std.proofs.lemmas.List.{take_all}
use Rattle.race_records.specs.Page.{Printing}
use Rattle.race_tool.{specs.Explore.{listed, pick_text}, proofs.ListedLemmas.{item_behind, item_breaks_off, next_mark}}
use Rattle.race_tool.proofs.explore_printing.print_all_picks.Goals as goal

pub loop-pick-preserved : goal.loop-pick-preserved
loop-pick-preserved g c =
    let l = c.loop-pick in
    record {
      printed = item_behind pick_text (codes "; with --picks ") (codes ",") c.args.picks.now l.pick-index _ c.loop-pick-test.true l.mark.now l.invariant.mark l.invariant.printed
          c.in_default.ensures;
      mark = c.as_slice-mark-in-loop-pick.ensures ∙ sym (next_mark (codes "; with --picks ") (codes ",") l.pick-index);
    }

pub returns-in-Err : goal.returns-in-Err
returns-in-Err g c =
    let l = c.loop-pick in
    item_breaks_off pick_text (codes "; with --picks ") (codes ",") c.args.picks.now l.pick-index _ c.loop-pick-test.true l.mark.now
    l.invariant.mark l.invariant.printed c.in-Err.ensures

pub returns : goal.returns
returns g c =
    let picks = c.args.picks.now in
    let all : take c.loop-pick.pick-index picks ≡ picks = take_all c.loop-pick.pick-index picks c.loop-pick-test.false in
    subst (λ (l : List ℕ). Printing g.W.Write.contents (Ok tt) c.args.sink.now c.loop-pick.sink c.args.page.now c.loop-pick.page
    (listed pick_text (codes "; with --picks ") (codes ",") l)) all c.loop-pick.invariant.printed
