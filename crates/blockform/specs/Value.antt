-- What a block is, and the bytes that write it.
pub use Rattle.blockbytes.specs.Value.{InputValue, OutputValue, TransactionValue, BlockValue, Piece, spends, makes, encode_all, encode_input, encode_output, encode_piece, encode_transaction, encode_block, All, Few, Id, InputWithin, OutputWithin, PieceWithin, TransactionWithin, BlockWithin}
pub use Rattle.blockbytes.specs.Laws.{Accepted}
