-- Functions that are asked about each numbered bid, with its number.
--   Askable   such a function may be asked
--   Answers   what it answers means what is given for the number and the bid
use Rattle.std.specs.Prelude.{◌≡◌, ℕ, ◌+◌, ◌<◌, List, length, slice_index_or}
use Rattle.bids.specs.declared.bid.Bid.{Bid}
use Rattle.bids.specs.Bids.{no_bid}

-- `may` says at which numbers and bids it may be asked.
abbrev pub Askable : (ℕ → Bid → Type 0) → List Bid → Type 0
Askable may bids = (i : ℕ) → i < length bids → may (i + 1) (slice_index_or bids i no_bid)

-- `answers` says what it may answer at a number and a bid.
abbrev pub Answers : {S M : Type 0} → (S → M) → (ℕ → Bid → S → Type 0) → List Bid → (ℕ → Bid → S) → Type 0
Answers {S} meaning answers bids at =
    (i : ℕ) (answer : S) → i < length bids → answers (i + 1) (slice_index_or bids i no_bid) answer → meaning answer ≡ meaning (at (i + 1) (slice_index_or bids i no_bid))
