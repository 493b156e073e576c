pub mod ReportedTests
