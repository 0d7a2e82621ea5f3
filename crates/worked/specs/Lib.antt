-- 01's worked lines as data: scripts and what they print, the table of cases E1 to E10, the shortcuts that go wrong, and tables in form
-- that no call made. proofs/ has what the checker computed of them.
pub mod Script
pub mod Cases
pub mod Shortcuts
pub mod Unmade
