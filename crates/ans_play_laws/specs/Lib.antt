-- Laws of plays, and of what walks over a content tell.
pub mod RowLaws
pub mod RowEndLaws
pub mod TallerLaws
