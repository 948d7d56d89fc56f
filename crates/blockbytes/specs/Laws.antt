-- Reading a block and writing it are each other's inverse.
use Rattle.std.specs.Prelude.{◌≡◌, ℕ, ◌≤◌, List, length, Ok}
use Rattle.compact.specs.Compact.{Bytes}
use Rattle.blockbytes.specs.Value.{BlockValue, BlockWithin, encode_block}
use Rattle.blockbytes.specs.Places.{read_block}

-- the bytes are the encoding of v, which is within the limits, and are not too many
pub record Accepted (bytes : List ℕ) (v : BlockValue) : Type 0 where
  pub encodes : bytes ≡ encode_block v
  pub within : BlockWithin v
  pub size : length bytes ≤ 65536

-- what is read as a block is its encoding
abbrev pub ReadIsEncoded : Type 0
ReadIsEncoded = (bytes : List ℕ) (v : BlockValue) → Bytes bytes → read_block bytes ≡ Ok v → Accepted bytes v

-- the encoding of a block is read as that block
abbrev pub EncodedIsRead : Type 0
EncodedIsRead = (bytes : List ℕ) (v : BlockValue) → Accepted bytes v → read_block bytes ≡ Ok v

-- one block for its bytes
abbrev pub OneBlock : Type 0
OneBlock = (v w : BlockValue) → BlockWithin v → BlockWithin w → encode_block v ≡ encode_block w → v ≡ w
