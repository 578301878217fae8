pub mod Overlaps
pub mod LastBy
pub mod SpanOrders
pub mod SortedSpans
pub mod Digits
pub mod Kept
