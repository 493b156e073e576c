use Rattle.race_explain.proofs.explain.put_clean.Goals as goal

pub returns : goal.returns
returns g c = (_, tt, c.in_ok-extend_from_slice.ensures.items)
