-- Worked calls and files, of the definitions themselves.
--   answers              the answers to calls made one after another
--   WorkedRuns           permits, bids and withdrawals in a sale of 2 lots with a table of 3 places
--   worked_file, open_file
--                        a file, and the same without its seventh line
--   WorkedFiles          loads of these, and the book of the first
use Rattle.std.specs.Prelude.{◌≡◌, ℕ, List, [], ◌∷◌, ◌++◌, codes}
use Rattle.bids.specs.Bids.{new_bid}
use Rattle.bids.specs.Limits.{max_packages}
use Rattle.packages.specs.Lots.{highest_run_lot, run_lots}
use Rattle.books.specs.Book.{Book, Call, permit, lodge, withdraw, load, Answer, accepted, refused, answer, after}
use Rattle.books.specs.History.{opened}

abbrev pub answers : Book → List Call → List Answer
answers b [] = []
answers b (c ∷ cs) = answer b c ∷ answers (after b c) cs

abbrev pub WorkedRuns : Type 0
WorkedRuns =
    answers (opened highest_run_lot 2 3)
    (permit (run_lots 1 2) ∷ permit (run_lots 1 1) ∷ permit (run_lots 2 2) ∷ permit (run_lots 1 2) ∷ lodge 1 10 1 ∷ lodge 2 6 2 ∷ lodge 3 5 4 ∷ lodge 0 5 3 ∷ withdraw 2 ∷ withdraw 2 ∷ withdraw 3 ∷ [])
    ≡ accepted 1 ∷ accepted 2 ∷ accepted 3 ∷ refused (24, 0) ∷ accepted 1 ∷ accepted 2 ∷ refused (28, 0) ∷ refused (12, 0) ∷ accepted 6 ∷ refused (31, 0) ∷ refused (30, 0) ∷ []

-- lines, each ended by a byte 10
abbrev pub ended : List (List ℕ) → List ℕ
ended [] = []
ended (l ∷ ls) = l ++ (10 ∷ ended ls)

abbrev pub worked_file : List ℕ
worked_file =
    ended (codes "SALE 94" ∷ codes "G" ∷ codes "B 1 10" ∷ codes "G" ∷ codes "L" ∷ codes "B 2 6" ∷ codes "E" ∷ codes "G" ∷ codes "L" ∷ codes "B 3 5" ∷ codes "E" ∷ codes "E" ∷ codes "END" ∷ [])

abbrev pub open_file : List ℕ
open_file =
    ended (codes "SALE 94" ∷ codes "G" ∷ codes "B 1 10" ∷ codes "G" ∷ codes "L" ∷ codes "B 2 6" ∷ codes "G" ∷ codes "L" ∷ codes "B 3 5" ∷ codes "E" ∷ codes "E" ∷ codes "END" ∷ [])

pub record WorkedFiles : Type 0 where
  pub answered : answers (opened highest_run_lot 7 max_packages) (load open_file ∷ load (codes "SALE 95") ∷ load worked_file ∷ load worked_file ∷ lodge 4 7 3 ∷ [])
      ≡ refused (8, 2) ∷ refused (2, 1) ∷ accepted 3 ∷ refused (21, 0) ∷ accepted 4 ∷ []
  pub crowded : answer (opened highest_run_lot 7 2) (load worked_file) ≡ refused (22, 8)
  pub written_down : after (opened highest_run_lot 7 max_packages) (load worked_file) ≡ record {
    lots = 2;
    space = 256;
    packages = run_lots 1 2 ∷ run_lots 1 1 ∷ run_lots 2 2 ∷ [];
    bids = new_bid 1 10 1 ∷ new_bid 2 6 2 ∷ new_bid 3 5 3 ∷ [];
  }
