pub mod Span
pub mod Spans
pub mod Overlap
pub mod SpanOrder
pub mod SearchSteps
