-- The worked texts: the report on a file of two lots with three bids, and that on the same file without its seventh line.
--   WorkedTexts   the texts, line by line
use Rattle.std.specs.Prelude.{◌≡◌, [], ◌∷◌, codes}
use Rattle.books.specs.Worked.{ended, worked_file, open_file}
use Rattle.summary.specs.FileText.{file_text}

pub record WorkedTexts : Type 0 where
  pub report :
      file_text worked_file ≡
      ended (
      codes "REVENUE 11" ∷
      codes "BID 2 BUYER 2 PRICE 6" ∷
      codes "BID 3 BUYER 3 PRICE 5" ∷
      codes "BUYER 2 PAYS 5" ∷
      codes "BUYER 3 PAYS 4" ∷
      codes "WAYS 1" ∷
      codes "TOP 11 10 6" ∷
      []
      )
  pub refusal : file_text open_file ≡ ended (codes "REFUSED 8 LINE 2" ∷ [])
