pub mod ObjectLemmas
pub mod CutLemmas
pub mod OpenLemmas
pub mod TextsLemmas
pub mod AskedLemmas
pub mod TypeLemmas
pub mod FieldLemmas
pub mod TakenLemmas
