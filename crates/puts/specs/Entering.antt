-- What is handed in enters what is there (document 02, Q-1). The definitions stand in the crate enter, since answers enter a book so, too,
-- and are passed on here.
-- Assumes nothing.
pub use Rattle.enter.specs.Entering.{Kept, kept_id}
unfoldable pub use Rattle.enter.specs.Entering.{replaced_by, new_to, enter}
