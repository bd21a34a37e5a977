-- The limits that the rules set for a sale.
--   max_packages, max_bids       the most packages and the most numbered bids of a sale
--   highest_buyer, highest_price the highest buyer and the highest price of a bid
--   from_to                      whether a number lies between two others
--   is_buyer, is_price           whether a number is that of a buyer, or a price
use Rattle.std.specs.Prelude.{ℕ, Bool, ◌&&◌, nat_le}

abbrev pub max_packages : ℕ
max_packages = 256

abbrev pub max_bids : ℕ
max_bids = 512

abbrev pub highest_buyer : ℕ
highest_buyer = 999

abbrev pub highest_price : ℕ
highest_price = 1000000000

abbrev pub from_to : ℕ → ℕ → ℕ → Bool
from_to low high n = nat_le low n && nat_le n high

abbrev pub is_buyer : ℕ → Bool
is_buyer = from_to 1 highest_buyer

abbrev pub is_price : ℕ → Bool
is_price = from_to 1 highest_price
