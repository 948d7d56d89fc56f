-- What a block file has at a place.
pub use Rattle.blockfile.specs.File.{record_at, peek_at}
