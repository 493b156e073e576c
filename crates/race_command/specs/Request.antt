-- What a command line asks for.
use Rattle.std.specs.Prelude.{◌&&◌, Bool, true}
use Rattle.race_command.specs.declared.command.Request.{Request}
use Rattle.race_tool.specs.{Outcome.are_in_limits, Options.are_run_limits, Explore.are_explore_limits, Predict.are_predict_limits}

-- the options of the request are in their limits
abbrev pub is_in_limits : Request → Bool
is_in_limits (Request.Check options) = are_in_limits options
is_in_limits Request.Explain = true
is_in_limits Request.Edges = true
is_in_limits (Request.Run options) = are_run_limits options
is_in_limits (Request.Race run check) = are_run_limits run && are_in_limits check
is_in_limits (Request.Explore options) = are_explore_limits options
is_in_limits (Request.Witness name) = true
is_in_limits (Request.Draw name svg) = true
is_in_limits (Request.Predict options) = are_predict_limits options
is_in_limits (Request.Certify name turned) = true
