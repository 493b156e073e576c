use Rattle.std.{proofs.Common.{◌≡◌, [], ap, ◌∙◌}, specs.List.range_with_len}
use Rattle.race_records.specs.{declared.kind.Kind.Kind, Declarations.count_of}
use Rattle.race_draw.specs.{declared.picture.Style.Style, Clean.kept, Picture.{strands_behind, columns_of}}
use Rattle.race_draw.proofs.PictureLemmas.{clean_printable}
use Rattle.race_draw.proofs.clean.lay_out_clean.Goals as goal

pub returns-clause-laid_out : goal.returns-clause-laid_out
returns-clause-laid_out g c =
    let edges = c.in_ok-edges.edges.items in
    let kept_are : c.as_slice-2.result.now ≡ kept edges = c.as_slice-2.ensures.value ∙ c.in_ok-kept.ensures ∙ ap kept c.as_slice.ensures.value in
    let count_is : c.count-goroutines.result ≡ count_of Kind.Goroutine c.args.trace.now.decls.declarations
    = c.count-goroutines.ensures.count ∙ ap (λ d. count_of Kind.Goroutine d.declarations) c.decls.ensures.decls in
    record {
      edges = edges;
      listed = c.in_ok-edges.ensures;
      strands = c.in_ok-put_strands.ensures ∙ (λ i. strands_behind Style.Plain (c.new-strands.ensures.items i) (kept_are i));
      columns = c.in_ok-columns.ensures ∙ (λ i. columns_of [] (c.events.ensures.events i) (c.as_slice-3.ensures.value i) (count_is i));
      rows = c.in_ok-rows.ensures ∙ ap (range_with_len 0) c.len.ensures.len;
    }

pub returns-clause-printable : goal.returns-clause-printable
returns-clause-printable g c = clean_printable c.args.trace.now _ (returns-clause-laid_out g c)
