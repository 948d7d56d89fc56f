-- The block that bytes write, or the first fault.
pub use Rattle.blockbytes.specs.Places.{read_block}
