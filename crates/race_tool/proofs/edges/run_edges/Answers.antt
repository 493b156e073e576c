use Rattle.race_verdict.specs.Traces.{capacities}
use Rattle.race_report.proofs.PrintableLemmas.{edges_are_of}
use Rattle.race_tool.proofs.edges.run_edges.Goals as goal

pub answer-requires-clause-printable : goal.answer-requires-clause-printable
answer-requires-clause-printable g c = λ bytes edges right.
    edges_are_of edges.trace right.0.has_text.is_trace (capacities edges.trace) edges.edges.items right.1.2
