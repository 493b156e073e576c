use Rattle.race_tool.proofs.draw.Drawing.find.Goals as goal

pub returns-in_ok-draw_clean-in-Clean : goal.returns-in_ok-draw_clean-in-Clean
returns-in_ok-draw_clean-in-Clean g c = record { ok = c.in_ok-draw_clean-in-Clean.ensures; mismatch = λ is. cc }

pub returns-in_ok-draw_races-in-Races : goal.returns-in_ok-draw_races-in-Races
returns-in_ok-draw_races-in-Races g c = record { ok = c.in_ok-draw_races-in-Races.ensures; mismatch = λ is. cc }
