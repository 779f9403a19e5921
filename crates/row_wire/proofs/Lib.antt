pub mod RingLaws
pub mod RowFits
pub mod RowLaws
