-- What contracts see of a receipt.
use Rattle.std.specs.Prelude.{◌≡◌, length}
use Rattle.air_history.specs.UpdateLists.{UpdateLists}
use Rattle.air_history.specs.Boards.{Reply}
use Rattle.update_commit.specs.declared.receipts.Receipt.{Receipt}

-- The receipt's lists are as long as the update's.
abbrev pub HasRoom : UpdateLists → Receipt → Type 0
HasRoom update receipt = (length receipt.read ≡ length update.reads) × (length receipt.written ≡ length update.writes)

-- The reply that the receipt gives.
abbrev pub reply_in : Receipt → Reply
reply_in receipt = record { number = receipt.number; cycle = receipt.cycle; read = receipt.read; written = receipt.written }
