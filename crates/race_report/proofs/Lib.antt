pub mod ReportLemmas
pub mod PrintableLemmas
pub mod AccessLines
pub mod NotedLemmas
