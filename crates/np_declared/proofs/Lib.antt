pub mod TableLaws
pub mod SupertypeLaws
pub mod HasTables
pub mod TaskFaults
pub mod TouchedLaws
pub mod Rising
