pub mod Reports
pub mod Marked
pub mod Text
pub mod FileText
pub mod Worked
